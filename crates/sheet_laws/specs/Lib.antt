pub mod Outcomes
pub mod Writing
pub mod Demand3
