-- definitions that the crate's clauses cite
pub mod Lines
pub mod Options
pub mod Places
