pub mod Boxes
pub mod Slots
