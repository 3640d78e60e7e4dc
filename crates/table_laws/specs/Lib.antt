pub mod Order
pub mod Offsets
pub mod Absent
pub mod Samples
