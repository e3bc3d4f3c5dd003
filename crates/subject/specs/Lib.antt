pub mod Refusals
pub mod Problem
pub mod Boxes
pub mod Decisions
pub mod Plans
pub mod Logs
pub mod Law
pub mod Wording
