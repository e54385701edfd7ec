-- definitions that the crate's clauses cite
pub mod Request
pub mod Line
pub mod Answers
pub mod Limits
pub mod Help
-- command lines for examples worked by hand
pub mod Examples
-- used in proofs only
pub mod Clap
pub mod Sorts
pub mod Parsers
