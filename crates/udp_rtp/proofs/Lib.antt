pub mod Awaiting
pub mod Classes
pub mod Flows
mod Parts
pub mod PlainFrames
