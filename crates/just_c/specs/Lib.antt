pub mod InC
pub mod SheetInC
pub mod WriterInC
pub mod DiffInC
