pub mod Alike
pub mod Checksum
