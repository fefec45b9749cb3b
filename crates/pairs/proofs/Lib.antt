-- Main items by their numbers, hashed words of two items, and the walk backwards.
pub mod MainItems
pub mod Hashed
pub mod Walk
