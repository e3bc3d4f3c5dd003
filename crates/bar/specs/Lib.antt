pub mod Counted
pub mod Tally
pub mod Bars
pub mod Proper
pub mod Meaning
