-- definitions that the crate's clauses cite
pub mod Bytes
pub mod Classic
pub mod Sources
-- used within this crate only
pub mod Converting
pub mod Described
pub mod Examples
pub mod Gifts
pub mod Stages
pub mod Texts
pub mod Wholes
pub mod Windows
