pub mod Judge
pub mod Steps
