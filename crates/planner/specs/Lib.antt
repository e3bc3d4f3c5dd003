pub mod Answers
pub mod Opening
pub mod States
pub mod Walks
