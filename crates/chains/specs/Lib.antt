-- Items in chains.
pub mod Chain
