-- The audit's loop follows the model's, and what its report tells.
pub mod Loop
pub mod Whole
pub mod Laws
