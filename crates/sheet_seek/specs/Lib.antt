pub mod Passes
pub mod LookUp
