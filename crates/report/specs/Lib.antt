-- The report as the paper's values.
pub mod Reported
