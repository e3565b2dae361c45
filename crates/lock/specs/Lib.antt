pub mod Keys
pub mod Meaning
pub mod Taken
pub mod Answers
