-- the definitions that public clauses use
pub mod Marks
pub mod Axes
pub mod Pieces
pub mod Escapes
pub mod Grid
pub mod Lines
pub mod Curve
pub mod Shades
pub mod Bars
pub mod Figures
pub mod Charts
-- examples worked by hand
pub mod Worked
