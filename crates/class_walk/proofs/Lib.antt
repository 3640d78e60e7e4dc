pub mod Cycle
pub mod Theory
pub mod Laws
pub mod Line
pub mod Loop
pub mod Samples
