pub mod Steps
pub mod Laws
pub mod Plans
pub mod Batches
