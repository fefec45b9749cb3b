pub mod Holds
pub mod Ending
pub mod Written
pub mod Pieces
