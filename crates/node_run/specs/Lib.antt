pub mod Listed
pub mod Room
pub mod Named
pub mod Tokens
pub mod Building
pub mod Closing
pub mod Over
