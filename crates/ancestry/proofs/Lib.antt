-- The answer of listing an item's ancestry, and what the list holds.
pub mod Answering
