pub mod MachineLaws
pub mod RecordLaws
pub mod ActionLaws
pub mod PoolLaws
pub mod ReplyLaws
