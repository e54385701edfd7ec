pub mod Answered
pub mod Confirming
pub mod Following
pub mod Needing
pub mod Reports
mod Seeing
pub mod Served
pub mod Unique
