pub mod Quorum
pub mod Laws
