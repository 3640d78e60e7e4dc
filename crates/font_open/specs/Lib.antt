pub mod Opened
pub mod OpenedInC
