pub mod Counting
pub mod Fractions
pub mod Headers
pub mod Masks
pub mod OneCount
