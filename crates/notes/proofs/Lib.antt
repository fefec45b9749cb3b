-- Where the words of a note stand, the buckets of items, the item that a note means, and what is wrong with notes.
pub mod Places
pub mod Buckets
pub mod Noted
pub mod Wrong
