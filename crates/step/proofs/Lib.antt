-- One step of the audit.
pub mod Advancing
