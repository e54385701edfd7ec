pub mod Anchors
pub mod Buffers
pub mod Compare
pub mod Floors
pub mod Lines
pub mod Parts
pub mod Ticks
pub mod Turns
