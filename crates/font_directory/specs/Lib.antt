pub mod Sum
pub mod Directory
