-- the output of `explain`: lines of text, and JSON
pub mod Flows
pub mod Text
pub mod Json
-- times in sentences
pub mod Times
