-- The rules of session, commitments and ballot, by their tests.
pub mod Rules
