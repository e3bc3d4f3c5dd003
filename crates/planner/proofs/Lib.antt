pub mod Tables
pub mod Steps
pub mod Opened
pub mod Going
