pub mod Decided
pub mod Accepted
pub mod More
