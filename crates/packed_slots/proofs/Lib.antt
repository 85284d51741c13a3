pub mod Slotting
pub mod Taking
