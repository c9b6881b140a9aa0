mod Lists
mod Few
mod Hands
mod Made
mod Ended
mod Left
mod Closed
mod Rows
