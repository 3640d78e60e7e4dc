pub mod LeastLaws
pub mod StandLaws
pub mod MachineLaws
