pub mod Clashes
pub mod Data
pub mod Fours
pub mod InFour
pub mod Table
pub mod Translation
pub mod Writer
