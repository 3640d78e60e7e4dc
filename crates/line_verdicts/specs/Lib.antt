pub mod Moves
pub mod Bits
pub mod Lines
