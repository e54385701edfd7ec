pub mod Held
pub mod Columns
pub mod Taken
pub mod Regions
pub mod Longest
