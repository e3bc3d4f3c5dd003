pub mod Faults
pub mod Model
pub mod Steps
