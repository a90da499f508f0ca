pub mod Apart
pub mod Left
pub mod Unique
pub mod Words
