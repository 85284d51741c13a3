pub mod Counted
pub mod Decided
