-- the definitions that public clauses use
pub mod Stretches
pub mod Objects
pub mod Lines
pub mod Watched
-- values worked by hand
pub mod Worked
-- definitions for proofs alone
pub mod making
