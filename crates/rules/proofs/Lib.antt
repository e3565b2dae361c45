mod Tally
mod History
mod Rows
mod Core
mod Counts
mod Entries
mod Change
mod Sound
mod Went
mod Admit
mod Pass
mod Agree
mod Overtake
mod Step
pub mod Safe
pub mod Reached
mod Alike
pub mod KindsAlike
pub mod Ample
