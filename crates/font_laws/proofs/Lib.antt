pub mod Accepted
pub mod Samples
