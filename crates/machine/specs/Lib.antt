pub mod Cells
pub mod Classes
pub mod Rows
pub mod Machine
