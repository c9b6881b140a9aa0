pub mod OneNode
pub mod OnlyDisc
