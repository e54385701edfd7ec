-- the definitions that public clauses use
pub mod Times
pub mod Peaks
pub mod Words
pub mod Shown
pub mod Media
pub mod Head
pub mod Numbers
pub mod Levels
pub mod Timings
pub mod Often
pub mod Around
pub mod Page
-- examples worked by hand
pub mod Worked
-- the definitions of the modules `chart` and `drawing`
pub mod chart
pub mod drawing
