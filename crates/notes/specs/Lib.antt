-- What the contracts of this crate name: whole notes, and what is found of them, as the model names it.
pub mod Holding
