-- The round that is in force under an item number.
pub mod Open
