mod Sources
mod Meters
pub mod Eaches
mod Ends
pub mod Taken
mod Whole
pub mod Held
pub mod Reading
mod Packets
pub mod Chosen
pub mod Answering
pub mod Some
pub mod Numbers
pub mod Unique
pub mod lemmas
