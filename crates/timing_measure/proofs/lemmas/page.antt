pub mod Answering
pub mod Columns
pub mod Drawings
pub mod Once
pub mod Places
pub mod Showing
pub mod Some
pub mod Unique
