pub mod Laws
pub mod Samples
pub mod HexLaws
pub mod HexSamples
