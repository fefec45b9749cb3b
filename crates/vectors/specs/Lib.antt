pub mod Scan
pub mod Messages
pub mod Feeding
pub mod Hexadecimal
pub mod Input
pub mod Reading
