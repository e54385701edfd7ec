pub mod Lists
pub mod Parts
pub mod Puts
pub mod Sizes
