-- definitions that the clauses of the public functions use
pub mod Checked
pub mod Asking
pub mod Readings
pub mod Sources
-- flows for values worked by hand
pub mod Examples
-- definitions for proofs only
pub mod Faulty
pub mod Markers
pub mod Numbers
pub mod Packets
pub mod Samples
pub mod Schedule
pub mod Walks
pub mod Taking
