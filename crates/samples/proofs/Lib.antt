pub mod Lines
pub mod Theorem
