pub mod InC
pub mod Values
