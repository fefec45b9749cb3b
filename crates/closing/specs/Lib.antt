-- The outcome at the closing word.
pub mod Outcome
