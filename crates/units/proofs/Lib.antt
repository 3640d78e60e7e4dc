pub mod Laws
pub mod Rounding
pub mod FlagLaws
