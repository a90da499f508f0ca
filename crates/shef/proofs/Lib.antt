pub mod Table
pub mod Writer
