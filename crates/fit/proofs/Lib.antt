pub mod Sifting
pub mod Rowing
pub mod Places
pub mod Masking
pub mod Marking
pub mod Showing
pub mod Filled
pub mod Newly
