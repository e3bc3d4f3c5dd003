pub mod Bits
pub mod Counting
pub mod Made
pub mod Sets
