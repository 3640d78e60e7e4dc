pub mod OffsetLaws
pub mod SlotLaws
pub mod ApartLaws
pub mod ScanLaws
pub mod ThinLaws
