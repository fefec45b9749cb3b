-- The answer of comparing, by what the two audits answered.
pub mod Answering
