-- the definitions that public clauses use
pub mod Told
pub mod Json
pub mod Rows
-- examples worked by hand
pub mod Examples
-- definitions for proofs alone
pub mod Line
