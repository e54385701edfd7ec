-- the definitions that the public clauses cite
pub mod Fails
pub mod Json
pub mod Reading
-- these serve only the proofs
pub mod Members
