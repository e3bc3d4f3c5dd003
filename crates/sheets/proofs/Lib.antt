pub mod Narrowing
pub mod Tabled
pub mod Entries
pub mod Chosen
pub mod Scopes
pub mod Reading
