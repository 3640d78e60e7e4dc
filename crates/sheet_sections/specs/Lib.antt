pub mod Section
pub mod RunSection
pub mod Pool
