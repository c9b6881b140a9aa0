pub mod Hands
pub mod Dealt
pub mod Room
pub mod Ended
