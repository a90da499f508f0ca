pub mod Fractions
pub mod HowMany
