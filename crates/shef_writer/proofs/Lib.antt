pub mod Counting
pub mod Entries
pub mod Sending
pub mod Telling
