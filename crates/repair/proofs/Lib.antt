pub mod ByHand
pub mod Entries
pub mod Rule
pub mod Told
pub mod Unique
