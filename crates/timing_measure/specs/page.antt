-- the definitions that the public clauses cite
pub mod Pages
pub mod Shown
-- the examples that are worked by hand
pub mod Worked
-- these serve only the proofs
pub mod Captures
pub mod Ends
