pub mod Adding
pub mod Existing
mod Feeding
pub mod Growing
mod Joining
mod Keeping
mod Metering
mod Passing
mod Telling
pub mod Unique
