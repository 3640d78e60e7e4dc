pub mod Tests
pub mod Gaps
