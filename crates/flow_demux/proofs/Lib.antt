mod Awaiting
mod Moving
mod Owning
mod Readying
mod Stepping
mod Taking
