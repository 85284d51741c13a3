pub mod Growing
pub mod Content
pub mod Null
pub mod Turns
