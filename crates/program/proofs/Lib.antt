-- Laws of the program's text.
pub mod Texts
