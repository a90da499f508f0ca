pub mod Check
pub mod Fields
pub mod Flag
pub mod Formats
pub mod Steps
pub mod Valid
