pub mod Laws
pub mod Decided
pub mod RoundTrip
