-- The closing word: what the code tests is what the model asks.
pub mod Closing
