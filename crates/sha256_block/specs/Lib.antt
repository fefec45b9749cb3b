pub mod Fips
pub mod Equations
