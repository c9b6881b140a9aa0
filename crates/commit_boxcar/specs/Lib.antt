pub mod Seat
pub mod Line
pub mod Requests
pub mod Monitor
pub mod Cars
pub mod Given
pub mod Settled
pub mod FirstRun
