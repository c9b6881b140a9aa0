pub mod OneDisc
