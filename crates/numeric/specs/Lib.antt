pub mod Data
pub mod Steps
pub mod Table
pub mod Translation
pub mod Writer
