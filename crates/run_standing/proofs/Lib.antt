mod Fit
mod FitDumps
mod FitTrails
mod FitVolumes
mod Folded
mod Lost
pub mod Opening
pub mod Shown
pub mod Stands
mod Telling
mod TrailRules
mod UpRow
mod Valid
