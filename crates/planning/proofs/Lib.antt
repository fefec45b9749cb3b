-- Theorems on plans. `Claims` states what is claimed; the other pages prove it, in the order in which they build on each other.
pub mod Heads
pub mod Related
pub mod Blocks
-- the claims
pub mod Claims
