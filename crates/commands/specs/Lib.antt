pub mod Places
pub mod Lines
pub mod Parsing
pub mod Writing
