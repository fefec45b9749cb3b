-- What is found of an item.
pub mod Checks
pub mod Judged
