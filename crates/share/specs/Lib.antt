pub mod Share
pub mod Carry
pub mod Line
pub mod Inner
pub mod Sides
