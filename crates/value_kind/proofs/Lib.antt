pub mod ScalarLaws
pub mod ContentLaws
pub mod FormLaws
pub mod ColumnLaws
pub mod Canonical
