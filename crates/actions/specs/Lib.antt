pub mod Faults
pub mod Actions
pub mod Notes
