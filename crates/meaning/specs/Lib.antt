pub mod Meaning
pub mod Ask
pub mod Discrete
pub mod Limits
pub mod Sheet
pub mod Same
pub mod Wide
