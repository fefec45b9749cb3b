-- The answer of listing an item's ancestry, as the model names it.
pub mod Answer
