-- Laws of sets: the numbers of a word, and tests of a set word by word.
pub mod Bits
pub mod Sets
