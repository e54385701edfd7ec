-- definitions that the crate's clauses cite
pub mod Causes
pub mod Counts
pub mod Files
pub mod MemoryShelves
pub mod MemorySinks
pub mod MemorySources
pub mod Shelves
pub mod SteadyShelves
pub mod Texts
pub mod Written
