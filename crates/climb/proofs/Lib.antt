-- An item's ancestry, step by step.
pub mod Steps
