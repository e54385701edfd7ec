pub mod Broken
pub mod Floatless
pub mod Numerals
