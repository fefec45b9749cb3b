pub mod Rounds
pub mod Halves
pub mod Padding
pub mod Agree
