pub mod Work
pub mod Outcomes
pub mod Theorems
