-- Words and bytes.
pub mod Bytes
