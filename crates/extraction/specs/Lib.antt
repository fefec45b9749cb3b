-- The extraction's part of check 13.
pub mod Rules
