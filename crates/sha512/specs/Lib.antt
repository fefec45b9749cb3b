pub mod State
pub mod Pieces
