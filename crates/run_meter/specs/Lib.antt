-- definitions that the clauses of the public functions use
pub mod Levels
pub mod Runs
