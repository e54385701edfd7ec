-- the output as lines of text and as JSON
pub mod Times
pub mod Text
pub mod Json
