pub mod Makers
pub mod Table
pub mod Writer
