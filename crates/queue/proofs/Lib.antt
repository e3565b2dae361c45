pub mod Laws
pub mod Members
pub mod Places
pub mod Readers
pub mod Sizes
