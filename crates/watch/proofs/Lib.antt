-- Theorems on a watcher's notes. `Claims` states what is claimed; the other pages prove it, in the order in which they build on each other.
pub mod Notes
pub mod NotedCuts
-- the claims
pub mod Claims
