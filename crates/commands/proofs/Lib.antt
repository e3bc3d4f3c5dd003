pub mod Splitting
pub mod Reading
