-- Laws of the ballot table.
pub mod Table
pub mod Fit
pub mod Casts
pub mod Message
