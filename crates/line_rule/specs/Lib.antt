pub mod Line
pub mod Edges
pub mod Shape
