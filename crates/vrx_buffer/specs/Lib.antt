pub mod Faults
pub mod Occupancy
pub mod Quiet
pub mod Stands
-- definitions for proofs only
pub mod Taking
