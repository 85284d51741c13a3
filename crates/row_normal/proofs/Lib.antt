pub mod Decided
pub mod More
