-- the definitions that the public clauses cite
pub mod Asked
pub mod Findings
pub mod Verified
-- these serve only the proofs
pub mod Claims
pub mod Found
