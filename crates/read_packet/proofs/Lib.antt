pub mod Five
pub mod Six
