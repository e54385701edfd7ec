-- the definitions that the public clauses cite
pub mod Asked
pub mod Windows
pub mod Skewed
pub mod Scanned
pub mod Described
pub mod Shapes
pub mod Shaped
pub mod ShapedAgain
-- the examples that are worked by hand
pub mod Worked
pub mod WorkedShapes
-- these serve only the proofs
pub mod judged
pub mod window
pub mod shape
pub mod skew
pub mod scan
