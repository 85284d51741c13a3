pub mod Each
pub mod Packed
pub mod Made
