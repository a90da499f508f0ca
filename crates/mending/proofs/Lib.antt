pub mod Search
pub mod Turned
pub mod Unique
