pub mod Takings
mod Markers
pub mod Gauges
pub mod Packets
pub mod Judgings
mod RunSizes
pub mod SomeShape
mod Judgments
mod WindowGauges
pub mod WindowReadings
pub mod Flowing
pub mod Unique
mod Listings
mod Copies
mod Resent
mod Numbers
mod Rejudged
pub mod OneShape
mod Leavings
mod Keepings
mod Walkings
mod Shapings
mod KeptShapes
mod Pairings
mod Comparings
pub mod Skewing
pub mod Windowing
pub mod Scannings
pub mod Describings
