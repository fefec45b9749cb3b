-- What a step of the audit ensures.
pub mod Steps
