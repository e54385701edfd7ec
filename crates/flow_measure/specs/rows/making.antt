pub mod Levels
pub mod Stands
pub mod Groups
