pub mod Volumes
pub mod Item
pub mod Controlled
pub mod Dumped
pub mod Behind
