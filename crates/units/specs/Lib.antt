pub mod Fixed
pub mod Flags
