pub mod Alike
pub mod Detect
pub mod Published
pub mod Row
