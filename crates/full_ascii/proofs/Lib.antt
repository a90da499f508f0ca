pub mod Entries
pub mod Ours
pub mod Table
pub mod Waste
pub mod Writer
