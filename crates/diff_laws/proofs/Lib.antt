pub mod Throughout
pub mod Unlike
pub mod Complete
pub mod Alone
pub mod Reach
pub mod Theorems
pub mod Samples
