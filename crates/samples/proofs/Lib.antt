-- The paper's samples, and sound boards: the claims are not empty.
pub mod Samples
pub mod SampleBoard
pub mod SampleElection
pub mod SampleTrack
pub mod SampleRoll
pub mod SampleWide
pub mod SampleCurves
pub mod SampleGrowth
pub mod SampleReceipts
pub mod SampleNotes
pub mod SamplePlan
pub mod SampleExport
