-- definitions that the clauses of the public functions use
pub mod Keeps
pub mod Limits
pub mod Reads
pub mod Sizes
pub mod Ticks
pub mod Times
-- videos and packets for values worked by hand
pub mod Worked
