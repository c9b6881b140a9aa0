mod Names
mod Ties
mod Blocks
mod Alone
mod Least
mod Examples
