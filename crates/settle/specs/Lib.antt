pub mod Keeping
pub mod Passed
pub mod Reach
pub mod Settled
pub mod Waiting
