pub mod Locks
pub mod Steps
pub mod Runs
pub mod Records
pub mod Writes
