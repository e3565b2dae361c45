pub mod Lines
pub mod Meaning
pub mod Ready
pub mod Said
