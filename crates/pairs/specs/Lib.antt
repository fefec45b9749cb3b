-- What comparing two boards finds, and the items that it reads.
pub mod Agreement
pub mod Reading
