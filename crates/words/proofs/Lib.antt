-- Laws of runs of words, of words that are written, and of words as bytes.
pub mod Runs
pub mod Writing
pub mod Bytes
