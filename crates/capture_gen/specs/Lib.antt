-- definitions that the crate's clauses cite
pub mod Capture
pub mod Flaws
pub mod Packets
pub mod Sdp
pub mod Spreads
-- used in proofs only
pub mod Writing
