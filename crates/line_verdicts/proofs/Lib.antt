pub mod Growth
pub mod Laws
pub mod Bits
pub mod Told
pub mod Line
