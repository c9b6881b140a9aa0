mod Asked
mod Backed
mod Begun
pub mod Crash
mod Discs
mod Dumps
mod Fine
mod Filed
mod Folds
mod Histories
mod Holders
mod Live
mod Opens
mod Orders
mod Others
mod Places
pub mod Purges
mod Records
mod Recoveries
mod Receipts
pub mod Rolls
mod Rooms
mod Seen
pub mod Serials
mod Shown
mod Standing
mod Steps
mod Sums
pub mod Transfer
pub mod Wholes
mod Workers
mod Yields
