pub mod Blocks
pub mod Buffers
pub mod Bytes
pub mod Numbers
pub mod Options
pub mod Packets
pub mod Steps
pub mod Texts
