pub mod Fit
pub mod Made
pub mod NodeUp
pub mod Telling
