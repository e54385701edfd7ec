-- the definitions that the public clauses cite
pub mod Explained
pub mod Known
pub mod Micros
-- what is collected of the judged runs
pub mod details
-- these serve only the proofs
pub mod Captures
pub mod Ends
