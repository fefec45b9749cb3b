-- What is printed, as the code writes it.
pub mod Put
pub mod Answer
