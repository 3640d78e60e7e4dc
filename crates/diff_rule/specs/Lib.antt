pub mod Differences
pub mod Order
pub mod Again
pub mod Exchange
