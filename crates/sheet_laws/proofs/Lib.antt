pub mod Written
pub mod Theorem
pub mod Placed
