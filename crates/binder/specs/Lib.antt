pub mod Refusals
pub mod Meaning
pub mod Joined
pub mod Laws
