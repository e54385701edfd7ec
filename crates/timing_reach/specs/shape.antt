-- these serve only the proofs
pub mod Keeping
pub mod Readings
pub mod Leaving
pub mod Walking
pub mod Shaping
