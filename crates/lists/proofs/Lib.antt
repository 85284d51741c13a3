pub mod Split
pub mod Front
pub mod Lent
