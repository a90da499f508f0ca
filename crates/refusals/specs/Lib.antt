pub mod Match
pub mod Refusals
pub mod Steps
