-- The rules of extraction data and confirmation, by their tests.
pub mod Rules
