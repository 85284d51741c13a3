pub mod Each
pub mod Places
pub mod Told
pub mod Packing
pub mod Table
