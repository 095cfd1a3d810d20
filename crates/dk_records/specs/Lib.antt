pub mod FieldLaws
pub mod RecordLaws
