-- The voters' part of check 13.
pub mod Rules
