pub mod Field
pub mod Refusals
pub mod Faults
pub mod Walk
pub mod Stores
