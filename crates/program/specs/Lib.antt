-- What the program answers for its files.
pub mod Read
pub mod Texts
