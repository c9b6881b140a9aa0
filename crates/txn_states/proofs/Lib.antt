pub mod Decisions
pub mod Enlisting
pub mod Endings
mod Examples
