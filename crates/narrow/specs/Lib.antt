pub mod Before
pub mod OneCurve
