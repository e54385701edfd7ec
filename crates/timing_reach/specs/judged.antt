-- these serve only the proofs
pub mod Flows
