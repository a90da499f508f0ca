pub mod Nine
pub mod Seven
