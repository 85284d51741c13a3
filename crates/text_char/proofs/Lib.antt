pub mod Places
pub mod Units
pub mod Sizes
pub mod Stores
pub mod Forms
pub mod Turns
