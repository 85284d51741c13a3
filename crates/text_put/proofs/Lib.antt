pub mod Stored
pub mod Turned
