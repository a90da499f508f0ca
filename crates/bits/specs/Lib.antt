pub mod First
pub mod Numbers
pub mod Row
pub mod Says
pub mod Turnings
pub mod Word
