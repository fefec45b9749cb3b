-- What the export of a board is, and what a reader makes of one.
pub mod Json
pub mod Export
pub mod Reading
