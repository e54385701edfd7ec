-- the definitions that the public clauses cite
pub mod Outcomes
pub mod Status
pub mod Text
pub mod Verdict
pub mod Words
-- values of the examples that are worked by hand
pub mod Worked
-- the definitions for the JSON report
pub mod json_report
