pub mod Sections
pub mod Steps
