pub mod Replies
pub mod Answering
pub mod Written
