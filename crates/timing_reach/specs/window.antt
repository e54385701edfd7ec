-- these serve only the proofs
pub mod Gauging
pub mod Readings
