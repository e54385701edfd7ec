pub mod Feeding
pub mod Keeping
pub mod Around
pub mod Finishing
pub mod Longest
pub mod ByHand
