pub mod Units
pub mod Lookup
pub mod Find
pub mod Pass
