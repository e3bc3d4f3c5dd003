pub mod Bits
pub mod Standing
pub mod Largest
pub mod Moments
pub mod Numbers
