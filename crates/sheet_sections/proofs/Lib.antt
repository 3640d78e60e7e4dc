pub mod SectionLaws
pub mod RunLaws
pub mod NumberLaws
pub mod PoolLaws
pub mod RangeLaws
