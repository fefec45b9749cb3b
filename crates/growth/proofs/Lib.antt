-- Theorems on one more item. `Claims` states what is claimed; the other pages prove it, in the order in which they build on each other.
pub mod Growth
pub mod Longer
pub mod Follow
-- the claims
pub mod Claims
