-- Laws of what is printed.
pub mod Placed
pub mod Digits
pub mod Lines
pub mod Rows
pub mod Answer
pub mod Files
