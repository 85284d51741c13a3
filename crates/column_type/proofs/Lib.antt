pub mod ReadLaws
pub mod RuleLaws
pub mod WriteLaws
pub mod Decided
pub mod RoundTrip
pub mod Back
