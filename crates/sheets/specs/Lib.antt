pub mod Tables
pub mod Closing
pub mod Rules
pub mod Opened
