pub mod Stops
pub mod Clean
pub mod Moves
pub mod Given
pub mod Removed
