pub mod Places
pub mod Components
