pub mod TurnLaws
pub mod CellLaws
