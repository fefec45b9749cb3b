pub mod Roots
pub mod Vectors
pub mod Vectors512
