pub mod Clearing
pub mod Glued
pub mod Numbers
pub mod Paired
pub mod Supported
