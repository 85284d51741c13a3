pub mod Laws
pub mod FieldLaws
