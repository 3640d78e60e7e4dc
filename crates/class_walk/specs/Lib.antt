pub mod Walk
pub mod Line
