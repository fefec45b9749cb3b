-- Laws of plans, as the code makes them.
pub mod Blocks
pub mod Looking
pub mod Reading
pub mod Words
