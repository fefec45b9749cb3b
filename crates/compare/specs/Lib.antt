-- The answer of comparing two boards, as the model names it.
pub mod Answer
