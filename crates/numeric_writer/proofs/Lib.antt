pub mod Counting
pub mod Sending
pub mod Telling
pub mod Tests
