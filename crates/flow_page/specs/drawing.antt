-- the definitions that public clauses use
pub mod Drawn
pub mod Told
pub mod Stands
-- examples worked by hand
pub mod Worked
-- definitions for proofs alone
pub mod drawing
