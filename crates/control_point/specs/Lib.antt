pub mod Control
pub mod Given
pub mod Purged
