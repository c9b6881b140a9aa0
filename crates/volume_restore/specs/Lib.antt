-- What the contracts of the recovery of one volume cite.
pub mod Bases
pub mod Changed
pub mod Damage
pub mod Formatted
pub mod Found
pub mod Inspected
pub mod Listed
pub mod Pass
pub mod Restored
