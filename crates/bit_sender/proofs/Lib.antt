pub mod Spilled
