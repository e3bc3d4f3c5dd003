pub mod Tight
pub mod Losing
pub mod Sparing
pub mod Passing
pub mod Keeping
pub mod Ways
pub mod Living
pub mod Scopes
