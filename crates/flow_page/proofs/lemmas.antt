pub mod chart
pub mod drawing
