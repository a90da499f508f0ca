pub mod Halves
pub mod Register
pub mod Row
pub mod Table
pub mod Together
