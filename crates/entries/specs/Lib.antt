-- What the entries name in their contracts.
pub mod Listing
pub mod Answering
pub mod Watching
pub mod Writing
