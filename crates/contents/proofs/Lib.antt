-- The three parts of check 13 together.
pub mod Parts
