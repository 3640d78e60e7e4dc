pub mod Places
pub mod Passing
