-- definitions that the crate's clauses cite
pub mod Addresses
pub mod Captures
pub mod Flows
pub mod Jobs
pub mod Judged
pub mod Keys
pub mod Choices
pub mod Media
pub mod Name
pub mod Numbered
pub mod Routes
pub mod Rows
pub mod Shifts
pub mod Targets
pub mod Verdicts
-- flows for examples worked by hand
pub mod Examples
-- used in proofs only
pub mod Grouped
