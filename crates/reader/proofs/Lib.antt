pub mod Named
pub mod ReadAnswers
pub mod ReadOnce
