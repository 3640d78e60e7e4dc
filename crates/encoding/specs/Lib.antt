pub mod Runs
pub mod Distinct
pub mod Codes
pub mod Sections
pub mod Upto
pub mod Tests
pub mod Dictionary
