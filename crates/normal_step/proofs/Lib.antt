pub mod Names
pub mod Placing
pub mod Answering
pub mod Fits
pub mod Copying
