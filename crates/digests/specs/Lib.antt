-- The hash of a curve.
pub mod Digest
