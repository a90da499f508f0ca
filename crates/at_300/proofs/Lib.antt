pub mod At300
pub mod Damaged
pub mod FirstMatches
pub mod NothingAfter
pub mod Parts
pub mod Reading
pub mod Writing
