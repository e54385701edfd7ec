pub mod Stands
pub mod Between
-- the reads of a grid
pub mod Parts
-- a video for values worked by hand
pub mod Worked
