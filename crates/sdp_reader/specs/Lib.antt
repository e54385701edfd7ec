-- definitions that the crate's clauses cite
pub mod Answer
pub mod Bytes
pub mod Fault
pub mod Lines
pub mod Parameters
pub mod Parts
pub mod Session
-- texts for examples worked by hand
pub mod Examples
-- used in proofs only
pub mod Plain
pub mod Summary
