-- the definitions that the public clauses cite
pub mod Contents
pub mod Json
pub mod Draft
pub mod ReadBack
pub mod Rates
pub mod Text
-- streams for the examples that are worked by hand
pub mod Examples
