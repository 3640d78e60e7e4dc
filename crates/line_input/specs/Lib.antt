pub mod Input
pub mod Steps
