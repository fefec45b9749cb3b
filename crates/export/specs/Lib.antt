-- What the contracts of this crate name: the text of an entry, and the two parts of a line.
pub mod Lines
