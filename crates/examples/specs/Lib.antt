pub mod Claims
pub mod Samples
pub mod Session
pub mod Cases
