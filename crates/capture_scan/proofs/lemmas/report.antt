pub mod Floatless
pub mod Numerals
pub mod Rates
mod Cutting
mod Decimals
mod Nearest
pub mod Guesses
mod DraftLines
mod DraftParts
pub mod DraftFaults
pub mod Drafted
pub mod Headings
pub mod Founds
