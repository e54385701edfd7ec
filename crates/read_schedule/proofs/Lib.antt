pub mod Grids
pub mod Held
pub mod Instants
pub mod Rising
pub mod Rounding
pub mod Spans
pub mod Turns
