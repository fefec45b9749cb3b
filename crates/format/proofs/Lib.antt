-- Laws of the format: a board's traits, the places of an item's parts, the beginning and the end of a board, counts of content words, and limits.
pub mod Traits
pub mod Places
pub mod Ends
pub mod Fits
pub mod Phases
