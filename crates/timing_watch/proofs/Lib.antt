mod Agreeing
mod Ahead
mod Answering
mod Beginning
mod Ends
mod Faults
mod Fronts
mod Growing
mod Lines
mod Packets
mod Passing
mod Peaks
mod Printing
mod Results
mod Runs
pub mod Some
mod Steps
mod Stretches
mod Taking
pub mod Unique
mod Waits
