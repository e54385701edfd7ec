pub mod Counts
pub mod Rules
pub mod Steps
