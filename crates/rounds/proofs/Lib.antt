-- Laws of the rounds in force: a round's words, the round under an item number, and the sixteen slots of the state.
pub mod Round
pub mod Slots
