pub mod Answers
pub mod Printed
pub mod Retraces
pub mod Steps
