-- definitions that the clauses of the public functions use
pub mod Judging
-- definitions for proofs only
pub mod Jobs
pub mod Reading
pub mod Closing
pub mod Columns
pub mod Threads
pub mod Ends
pub mod Gathering
