pub mod Complement
pub mod Floats
