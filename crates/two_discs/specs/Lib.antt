pub mod TwoDiscs
