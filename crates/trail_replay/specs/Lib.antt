-- What the contracts of the reading of a node's trails cite.
pub mod DeviceQueue
pub mod Found
pub mod Home
pub mod Landed
pub mod Opening
pub mod Reading
pub mod Replay
pub mod Rules
pub mod Texts
