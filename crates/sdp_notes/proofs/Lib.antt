pub mod Edits
pub mod Floatless
pub mod Front
pub mod Numerals
