pub mod AcceptedData
pub mod ExamineAnswers
pub mod ExamineOnce
pub mod ExamineStages
pub mod Headers
pub mod Sent
