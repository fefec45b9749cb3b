-- What holds of the items of a kept board, also where that is known truncated, what the index table's rows say of them, and what the code
-- knows of an item.
pub mod Items
pub mod Had
pub mod Counts
pub mod Rows
pub mod Putting
pub mod Reading
