pub mod Placing
pub mod Decided
pub mod RoundTrip
pub mod Parts
