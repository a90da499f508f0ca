pub mod Comparing
pub mod Highest
pub mod NoFront
pub mod Once
pub mod Parted
