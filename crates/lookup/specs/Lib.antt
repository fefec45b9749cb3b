-- What is searched for, and in which bucket.
pub mod Search
pub mod Buckets
