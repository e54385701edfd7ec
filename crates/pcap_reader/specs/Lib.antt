-- definitions that the crate's clauses cite
pub mod Header
pub mod Readers
pub mod Records
pub mod Stages
pub mod Taken
pub mod Windows
pub mod WrittenHeads
-- captures for examples worked by hand
pub mod Examples
-- used in proofs only
pub mod Finding
pub mod Heads
pub mod Runs
