pub mod Known
pub mod Refused
