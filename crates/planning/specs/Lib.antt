-- What the plan of a board is.
pub mod Plan
