-- definitions that the clauses of the public functions use
pub mod Pair
pub mod Stands
-- the private state, by which `Stands` is defined
pub mod Holds
pub mod Items
pub mod Kept
pub mod Listed
pub mod Search
pub mod Slots
pub mod View
-- properties of the extremes, and flows for values worked by hand
pub mod Examples
pub mod Extremes
-- the change by one packet
pub mod Step
