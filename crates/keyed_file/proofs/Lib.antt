pub mod BlockCalls
pub mod Blocks
pub mod Bytes
mod Differences
pub mod DumpLabels
pub mod Examples
pub mod Labels
pub mod Maps
pub mod Orders
pub mod Prefixes
pub mod Records
pub mod Rooms
pub mod Rows
mod LabelLengths
mod VolumeLabels
mod WantedLabels
