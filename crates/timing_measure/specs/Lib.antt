-- the definitions that the public clauses cite
pub mod Each
pub mod Measured
pub mod Measures
-- these serve only the proofs
pub mod flows
-- the definitions for `series` and `page`
pub mod series
pub mod page
