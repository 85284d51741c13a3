pub mod Placing
pub mod Joining
