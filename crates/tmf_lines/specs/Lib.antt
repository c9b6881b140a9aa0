-- What the contracts of the lines and of the texts that are read cite.
pub mod Line
pub mod Report
pub mod Script
pub mod Summary
