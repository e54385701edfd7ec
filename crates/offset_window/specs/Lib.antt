pub mod Window
pub mod Stands
-- capture timestamps for windows worked by hand
pub mod Worked
-- definitions for proofs only
pub mod Parts
pub mod Moves
pub mod Quiets
