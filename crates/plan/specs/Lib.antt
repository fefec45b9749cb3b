-- The plan as the paper's values, and what a look at a head gives.
pub mod Planned
