-- What the checks read, and what the model asks.
pub mod Checks
