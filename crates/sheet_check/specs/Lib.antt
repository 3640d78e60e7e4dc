pub mod Whole
pub mod Check
