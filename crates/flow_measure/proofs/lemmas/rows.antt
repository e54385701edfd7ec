pub mod Grouping
pub mod Rowing
