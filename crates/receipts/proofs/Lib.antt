-- Where the words of a receipt stand, its bucket, and the answers with one cast more and with one item more.
pub mod Places
pub mod Buckets
pub mod Renewed
pub mod Casts
pub mod Answers
