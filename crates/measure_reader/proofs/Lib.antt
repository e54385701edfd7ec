pub mod Flows
pub mod Numbers
pub mod Options
pub mod Plain
pub mod Readers
pub mod Runs
pub mod Types
