pub mod InPlace
pub mod WriteAnswers
pub mod WriteOnce
pub mod WriteStages
