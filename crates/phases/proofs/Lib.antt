-- Laws of check 11, of a session's voter, and of check 12: each definition of the model by the tests that the code makes.
pub mod Standing
pub mod Voter
pub mod Opened
pub mod Once
