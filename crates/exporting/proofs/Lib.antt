-- What follows of the export of a board. `Claims` states what is claimed; the other pages prove it, in the order in which they build on each other.
pub mod Bytes
pub mod Hex
pub mod Text
pub mod Reading
pub mod Same
pub mod Entry
-- the claims
pub mod Claims
