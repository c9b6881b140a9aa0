pub mod Asking
pub mod Counts
pub mod Found
pub mod WordsExamples
