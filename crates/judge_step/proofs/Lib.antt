pub mod Placing
pub mod Judging
