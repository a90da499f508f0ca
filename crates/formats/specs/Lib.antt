pub mod Ceiling
pub mod Data
pub mod Steps
pub mod Waste
