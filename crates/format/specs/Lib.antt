-- The format of a board, and what the format's types stand for.
pub mod Format
pub mod Layout
pub mod Limit
pub mod Phase
pub mod Table
