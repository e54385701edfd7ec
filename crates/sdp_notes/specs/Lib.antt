-- the definitions that the public clauses cite
pub mod Near
pub mod Notes
pub mod Described
pub mod Seen
-- descriptions and videos for examples worked by hand
pub mod Examples
-- the output of `sdp`
pub mod report
