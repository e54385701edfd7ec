pub mod Listed
pub mod ListedFlows
pub mod Once
