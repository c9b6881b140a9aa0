-- What the contracts of a rollforward cite.
pub mod Body
pub mod DumpLabels
pub mod Filled
pub mod Filling
pub mod Gathered
pub mod Newest
pub mod Reading
pub mod Rolled
pub mod Rolls
pub mod RolledNode
pub mod Texts
