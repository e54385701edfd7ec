-- the definitions that the public clauses cite
pub mod Fits
pub mod Reading
pub mod Told
-- values of the examples that are worked by hand
pub mod Worked
