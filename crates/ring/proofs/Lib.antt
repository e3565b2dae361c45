pub mod Turned
pub mod Held
pub mod HeldOf
pub mod Emptying
