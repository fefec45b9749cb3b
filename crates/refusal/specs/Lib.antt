-- The paper's numbers of the refusals.
pub mod Number
