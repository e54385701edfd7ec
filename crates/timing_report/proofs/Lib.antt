pub mod Appends
pub mod Keys
pub mod Lines
pub mod Numerals
pub mod lemmas
