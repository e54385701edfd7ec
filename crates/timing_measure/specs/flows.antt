-- these serve only the proofs
pub mod Ends
pub mod Fed
pub mod Meters
pub mod Taken
