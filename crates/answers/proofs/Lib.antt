-- Laws of the answers.
pub mod Laws
