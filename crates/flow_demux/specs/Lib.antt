-- definitions that the clauses of the public functions use
pub mod Takings
pub mod Texts
pub mod Rooms
pub mod Readings
-- a taker for the values worked by hand
pub mod Worked
-- definitions for proofs only
pub mod Awaits
pub mod Orders
pub mod Steps
