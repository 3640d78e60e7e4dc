pub mod LineInC
