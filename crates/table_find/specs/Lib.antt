pub mod Values
pub mod ValuesInC
