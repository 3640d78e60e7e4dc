pub mod PassLaws
pub mod PoolLaws
pub mod SideLaws
pub mod LookUpLaws
pub mod WalkLaws
