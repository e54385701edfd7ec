-- the definitions that the public clauses cite
pub mod Frames
pub mod Streams
pub mod Groups
pub mod Scans
pub mod Stands
-- frames and lists of numbers for the examples that are worked by hand
pub mod Examples
-- these serve only the proofs
pub mod Counting
pub mod Few
pub mod Places
-- the definitions for the texts of a scan
pub mod report
