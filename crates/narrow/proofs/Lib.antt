pub mod Before
pub mod Walk
pub mod Audit
pub mod OneCurve
