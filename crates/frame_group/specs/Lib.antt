-- definitions that the clauses of the public functions use
pub mod Cuts
pub mod Expected
pub mod Sizes
pub mod Stands
-- the private state of a grouper, by which `Stands` is defined
pub mod Marks
pub mod Reads
