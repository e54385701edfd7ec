-- for other crates
pub mod Confirmed
pub mod JudgeTold
pub mod Judges
pub mod PartsTold
pub mod Runs
-- of this crate alone
mod Banks
mod Currents
mod Expecting
mod Feeding
mod Fit
mod FlowTold
mod Flows
mod Going
mod HandWorked
mod Judging
mod Limits
mod Lulls
mod Told
mod Metering
mod Numbered
mod Offers
mod Prefixes
mod Rows
mod RunTold
mod SenderTypes
mod Verdicts
mod Whole
