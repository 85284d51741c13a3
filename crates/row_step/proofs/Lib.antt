pub mod Most
pub mod Adding
pub mod Placing
pub mod Sizing
pub mod Filling
