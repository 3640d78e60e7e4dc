pub mod Rows
pub mod Steps
pub mod Asked
pub mod Laws
