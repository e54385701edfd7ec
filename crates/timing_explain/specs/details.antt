-- what is collected of the judged runs
pub mod Told
-- the states of the meters
pub mod Stands
pub mod Packets
pub mod Groups
pub mod Overfull
pub mod Longest
