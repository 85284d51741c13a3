pub mod Copying
pub mod Joining
pub mod Decided
