-- The roll's pairs and numbers that rise, what the search leaves of them, and check 21 by its tests.
pub mod Rise
pub mod Search
pub mod Rules
