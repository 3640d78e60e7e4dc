pub mod Unlike
pub mod Reach
pub mod Changes
pub mod Samples
