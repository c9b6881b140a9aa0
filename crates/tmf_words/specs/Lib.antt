-- What the contracts of the words cite.
pub mod Asked
pub mod Words
