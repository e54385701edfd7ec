-- the definitions that the public clauses cite
pub mod Rows
pub mod Status
pub mod Series
-- these serve only the proofs
pub mod Stands
pub mod Copies
pub mod Ends
