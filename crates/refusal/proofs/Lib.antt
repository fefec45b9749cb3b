-- Facts of the refusals' numbers.
pub mod Laws
