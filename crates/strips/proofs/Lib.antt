pub mod Content
pub mod Lined
pub mod Flags
