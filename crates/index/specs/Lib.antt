-- What the index table holds, and what the code knows of an item.
pub mod Rows
pub mod Kept
pub mod Known
pub mod Passed
