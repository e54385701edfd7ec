-- definitions that the crate's clauses cite
pub mod Clocks
pub mod Fractions
pub mod Instants
