pub mod None
pub mod Told
