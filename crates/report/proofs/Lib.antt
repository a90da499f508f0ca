pub mod Once
pub mod Shown
pub mod Told
