pub mod Examine
pub mod Steps
