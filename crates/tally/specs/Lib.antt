-- What the ballot table holds: the rows of some votes, and those of the counted ballots while a board is read.
pub mod Rows
pub mod Tallied
