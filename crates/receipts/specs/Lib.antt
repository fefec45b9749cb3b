-- What the contracts of this crate name: receipts that can be answered, their buckets, and the answers so far.
pub mod Answering
