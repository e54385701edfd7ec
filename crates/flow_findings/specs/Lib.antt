-- the definitions that the public clauses cite
pub mod Details
pub mod Gaps
pub mod Numbers
pub mod Findings
pub mod Statuses
-- the names of findings, and lists of them
pub mod Words
pub mod Lists
-- inputs and findings of the examples that are worked by hand
pub mod Worked
