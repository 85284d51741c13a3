pub mod Told
pub mod Listed
