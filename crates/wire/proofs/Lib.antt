pub mod Reading
pub mod Writing
pub mod GuidLaws
pub mod GuidBack
pub mod Decided
pub mod Exit
pub mod Known
