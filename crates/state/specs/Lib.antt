-- What one more item makes of the running state, what it keeps in place of searching, what it stands for, and where a check stands.
pub mod After
pub mod Standing
pub mod Stands
pub mod Reached
