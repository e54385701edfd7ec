-- the definitions that the public clauses cite
pub mod Answers
pub mod Queries
pub mod Ran
pub mod Ends
pub mod Streams
pub mod Runs
pub mod Flows
-- these serve only the proofs
pub mod Fetched
pub mod Taken
pub mod Printings
pub mod Begun
