pub mod Plans
pub mod Waiting
pub mod Weights
pub mod Leveling
pub mod Stacking
pub mod Laying
pub mod Turning
