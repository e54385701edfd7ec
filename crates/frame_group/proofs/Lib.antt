pub mod Expecting
pub mod Faults
pub mod Sized
pub mod Steps
pub mod Told
