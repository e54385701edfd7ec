-- the definitions that the public clauses cite
pub mod JsonReading
pub mod PassLines
pub mod Pieces
pub mod Reading
pub mod Reported
pub mod Told
-- values of the examples that are worked by hand
pub mod Worked
