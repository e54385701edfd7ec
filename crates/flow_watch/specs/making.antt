pub mod Broken
pub mod Peaks
pub mod Stretches
pub mod Lines
pub mod Takes
pub mod Meters
