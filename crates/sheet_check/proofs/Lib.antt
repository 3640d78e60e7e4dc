pub mod SideLaws
pub mod WholeLaws
pub mod CheckLaws
