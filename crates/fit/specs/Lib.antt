pub mod Runs
pub mod Rows
pub mod Positions
pub mod Laid
pub mod Meaning
