pub mod Reading
pub mod More
