-- The config's part of check 13.
pub mod Rules
