pub mod Counted
pub mod Elements
pub mod Extremes
pub mod Flows
pub mod Orders
pub mod Searches
pub mod Stood
pub mod Views
