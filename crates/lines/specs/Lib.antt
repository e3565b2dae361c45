pub mod Grammar
pub mod Scan
pub mod Hex
pub mod Written
