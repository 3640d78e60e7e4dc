pub mod Justified
pub mod Settle
pub mod Steps
pub mod FullFactors
