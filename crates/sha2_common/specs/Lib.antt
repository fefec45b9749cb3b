pub mod Words
pub mod Sizes
pub mod Equations
pub mod Blocks
pub mod State
pub mod Pieces
pub mod Rounds
