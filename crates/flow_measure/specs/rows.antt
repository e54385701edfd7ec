-- the definitions that public clauses use
pub mod Rows
pub mod Told
-- definitions for proofs alone
pub mod making
