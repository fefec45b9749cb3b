-- What the checks of phases ask of a session's number.
pub mod Session
