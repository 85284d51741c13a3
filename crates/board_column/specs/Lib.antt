pub mod Plain
pub mod Made
