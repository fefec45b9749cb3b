-- Laws of this crate: digits and words put into bytes, a line in parts, lengths, the items of a board, and the whole export in a buffer.
pub mod Digits
pub mod Parts
pub mod Sizes
pub mod Items
pub mod Writing
