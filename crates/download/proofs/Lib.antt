pub mod Entries
pub mod Present
