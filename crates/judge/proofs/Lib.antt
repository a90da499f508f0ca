pub mod Answers
pub mod Comparing
pub mod JudgeOnce
pub mod Longest
pub mod Makers
