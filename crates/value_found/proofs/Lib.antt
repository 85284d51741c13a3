pub mod Finding
pub mod Decided
