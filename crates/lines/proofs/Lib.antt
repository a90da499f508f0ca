pub mod Decimal
pub mod Putting
pub mod Shown
pub mod Told
