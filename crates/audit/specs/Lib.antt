-- The outcome that the contracts name, and the tables.
pub mod Outcome
pub mod Tables
