-- What the process prints, and its exit code.
pub mod Started
