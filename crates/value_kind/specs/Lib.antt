pub mod Told
pub mod Form
