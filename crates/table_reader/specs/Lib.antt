-- the definitions that the public clauses cite
pub mod Fits
pub mod Rows
