pub mod Counting
pub mod FourPlain
pub mod Sending
