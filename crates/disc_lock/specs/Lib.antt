pub mod Locks
pub mod Moving
pub mod Numbered
pub mod Seats
pub mod Tokens
