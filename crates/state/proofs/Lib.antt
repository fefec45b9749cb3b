-- Laws of the running state: rounds by number and contests as a set in place of searching the history, what is known of the
-- next item, that the state with it stands for the longer history, what a check knows, and what its truncated facts say.
pub mod Had
pub mod Rounds
pub mod Defined
pub mod Phases
pub mod Next
pub mod Step
pub mod At
