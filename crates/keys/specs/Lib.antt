-- A verdict, and the keys that it is held to.
pub mod Verdicts
