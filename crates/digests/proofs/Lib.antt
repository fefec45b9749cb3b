-- Laws of digests, and a sound board of each format.
pub mod Curves
pub mod Digests
