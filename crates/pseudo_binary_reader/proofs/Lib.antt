pub mod First
pub mod Parting
pub mod Repeated
pub mod Starts
pub mod Steps
pub mod Taking
pub mod Values
