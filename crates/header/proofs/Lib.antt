pub mod Bytes
pub mod Division
pub mod Made
pub mod Several
pub mod Formats
