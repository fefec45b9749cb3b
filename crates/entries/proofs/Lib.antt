-- What the entries answer, by what the audit answered.
pub mod Left
pub mod Compared
pub mod Listed
pub mod Answered
pub mod Watched
pub mod Written
