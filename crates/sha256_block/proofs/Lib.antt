pub mod Rounds
pub mod Padding
pub mod Agree
