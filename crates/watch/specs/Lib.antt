-- What a watcher's notes are, and what they say of a board.
pub mod Notes
