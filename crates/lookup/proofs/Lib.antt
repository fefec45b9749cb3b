-- One step of each search, where the search for children begins, the code's tests of an item as the model's, the buckets of an item, and
-- a search by a chain.
pub mod Steps
pub mod Children
pub mod Views
pub mod Numbers
pub mod Buckets
pub mod Walk
