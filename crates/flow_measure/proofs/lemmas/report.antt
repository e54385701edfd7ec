pub mod Floatless
pub mod Joined
pub mod Numerals
