-- definitions that the clauses of the public functions use
pub mod Bounds
pub mod Plan
pub mod Stands
-- models and packets for values worked by hand
pub mod Worked
-- definitions for proofs only
pub mod Choice
