pub mod Apart
pub mod Comparison
pub mod Steps
