pub mod Heads
pub mod Decided
