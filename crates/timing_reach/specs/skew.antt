-- these serve only the proofs
pub mod Added
pub mod Awaits
pub mod Paired
pub mod Pairs
pub mod Comparing
