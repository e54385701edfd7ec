pub mod Fed
pub mod Instants
pub mod Lateness
pub mod Order
pub mod Quiet
