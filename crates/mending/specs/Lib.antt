pub mod Mends
pub mod Search
