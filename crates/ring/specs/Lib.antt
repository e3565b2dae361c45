pub mod Held
pub mod HeldOf
