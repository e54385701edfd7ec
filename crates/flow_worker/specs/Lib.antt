-- definitions that the clauses of the public functions use
pub mod Messages
pub mod Opening
pub mod Settings
pub mod Cut
pub mod Intakes
pub mod Posting
pub mod World
pub mod Kept
pub mod Works
-- runs for values worked by hand
pub mod TwoFiles
pub mod SmallRun
-- definitions for proofs only
pub mod Targeted
pub mod Expecting
pub mod Sending
pub mod Sorting
pub mod Judging
pub mod Standing
-- definitions of the module crew
pub mod crew
