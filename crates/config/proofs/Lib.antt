-- The rules of contest, threshold, authorizer and round, by their tests.
pub mod Rules
