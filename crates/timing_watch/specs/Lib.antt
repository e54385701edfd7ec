-- the definitions that the public clauses cite
pub mod Watched
pub mod Watches
pub mod Agreeing
-- a result worked by hand
pub mod Worked
-- these serve only the proofs
pub mod making
