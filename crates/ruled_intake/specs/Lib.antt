-- definitions that the clauses of the public functions use
pub mod Packets
pub mod Messages
pub mod Lanes
pub mod Halts
-- rule that the lane keeps at each step
pub mod Rule
-- messages for values worked by hand
pub mod Examples
-- definitions for proofs only
pub mod Knows
pub mod Readings
