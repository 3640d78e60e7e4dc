pub mod ContentLaws
pub mod ActionLaws
pub mod ListLaws
