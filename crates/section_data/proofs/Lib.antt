pub mod Once
pub mod OnePiece
