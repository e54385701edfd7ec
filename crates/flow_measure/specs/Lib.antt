-- the definitions that public clauses use
pub mod Summary
pub mod Columns
pub mod Slope
pub mod Counts
pub mod Bins
pub mod Classes
pub mod Told
pub mod Occupancy
pub mod Frames
pub mod Broken
pub mod First
pub mod Stands
pub mod Gaps
pub mod Groups
pub mod Kinds
pub mod Packets
pub mod Run
pub mod Measured
-- the state of the meters of a run
pub mod Fed
pub mod Offsets
pub mod Margins
pub mod Metered
pub mod RunStands
-- examples worked by hand
pub mod Worked
-- definitions for proofs alone
pub mod Places
pub mod Extremes
pub mod Parts
-- the definitions of the modules `report` and `rows`
pub mod report
pub mod rows
