pub mod Numerals
pub mod Texts
pub mod Rises
pub mod Peaks
pub mod Spans
pub mod Reaches
pub mod Escapes
