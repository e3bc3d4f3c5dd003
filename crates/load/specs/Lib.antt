pub mod Joins
pub mod Sums
pub mod Weights
pub mod Given
pub mod Tables
pub mod Loads
pub mod Sound
pub mod Calls
