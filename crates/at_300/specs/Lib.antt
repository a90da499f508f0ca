pub mod At300
pub mod OneSection
