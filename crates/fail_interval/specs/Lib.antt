-- definitions that the clauses of the public functions use
pub mod Row
pub mod Rows
pub mod Parts
pub mod Metered
pub mod Telling
pub mod Measured
pub mod Meterings
pub mod Fails
pub mod Counting
pub mod Current
pub mod Stands
pub mod BankStands
pub mod Found
-- flows with results worked by hand
pub mod Worked
-- definitions for proofs only
pub mod Early
pub mod Flowing
pub mod Goings
pub mod Groups
pub mod Kinds
pub mod Lulls
pub mod Meters
pub mod Runs
pub mod SoFar
pub mod States
pub mod Taken
