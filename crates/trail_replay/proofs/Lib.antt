pub mod CommitSets
pub mod Founds
pub mod Homes
pub mod Listings
pub mod Passes
pub mod Readings
pub mod Replays
pub mod Rows
