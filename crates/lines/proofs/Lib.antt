pub mod Numbers
pub mod Steps
pub mod Accepted
pub mod Mapped
