pub mod Keys
pub mod Fronts
pub mod Counts
