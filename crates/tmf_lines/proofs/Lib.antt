pub mod BankExamples
pub mod Examples
pub mod LineTexts
pub mod Reports
pub mod Sums
pub mod UnderWay
