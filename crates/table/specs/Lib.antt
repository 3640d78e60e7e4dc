pub mod Table
pub mod Means
