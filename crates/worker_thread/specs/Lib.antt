pub mod Named
pub mod Work
pub mod Room
pub mod Carried
pub mod Working
