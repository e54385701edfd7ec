pub mod Fed
pub mod Prefix
pub mod Reich
