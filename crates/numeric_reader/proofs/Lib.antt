pub mod Counting
pub mod EntryLaws
pub mod Pairs
pub mod Passing
pub mod Putting
pub mod Reading
pub mod Table
