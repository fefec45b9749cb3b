-- Laws of verdicts and of the keys under which they are given.
pub mod Keys
