-- definitions that the crate's clauses cite
pub mod Awaited
pub mod Carried
pub mod Classes
pub mod Flow
pub mod Frames
pub mod Numbers
pub mod Reading
-- frames and payloads for examples worked by hand
pub mod Examples
pub mod TwoFlows
