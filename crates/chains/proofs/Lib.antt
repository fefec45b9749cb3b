-- What a chain table holds.
pub mod Laws
