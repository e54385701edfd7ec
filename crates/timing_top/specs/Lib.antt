-- the definitions that the public clauses cite
pub mod Asked
pub mod Ends
pub mod Report
pub mod Runs
pub mod SelfTest
-- the definitions of the laws on reports
pub mod Headline
pub mod Exact
pub mod ReadBack
-- the definitions between judging and reporting
pub mod Found
-- the definitions for `verify` and `verify-report`
pub mod verify
