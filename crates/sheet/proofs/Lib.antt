pub mod TagLaws
pub mod ProductionLaws
pub mod FieldLaws
pub mod DefectLaws
pub mod SheetLaws
