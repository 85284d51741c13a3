pub mod Placing
pub mod Decided
