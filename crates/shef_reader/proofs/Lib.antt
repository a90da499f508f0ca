pub mod Fives
pub mod Six
