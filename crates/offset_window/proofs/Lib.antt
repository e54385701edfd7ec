pub mod ByHand
pub mod Ends
pub mod Fed
pub mod Offsets
pub mod Quiets
pub mod Steps
pub mod Unique
