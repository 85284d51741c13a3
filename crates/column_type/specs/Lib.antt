pub mod Told
pub mod Back
