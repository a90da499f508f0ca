pub mod Chain
pub mod Coded
pub mod Consecutive
pub mod LineEnds
pub mod Lookup
pub mod Pack
pub mod Reading
pub mod Steps
