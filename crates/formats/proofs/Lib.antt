pub mod Bits
pub mod Codes
pub mod Formats
pub mod NumericData
pub mod OfScheme
pub mod Once
pub mod OpenData
