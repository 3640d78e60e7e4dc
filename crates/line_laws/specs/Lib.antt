pub mod Bars
pub mod Edges
pub mod OneSize
pub mod AsBefore
