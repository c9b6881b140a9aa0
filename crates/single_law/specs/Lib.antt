pub mod Dumps
pub mod Ended
pub mod Front
pub mod Left
pub mod One
pub mod Row
pub mod Single
