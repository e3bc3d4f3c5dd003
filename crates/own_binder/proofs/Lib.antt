pub mod Dry
pub mod Showing
