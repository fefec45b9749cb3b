-- What the entries for other languages answer and write.
pub mod Written
