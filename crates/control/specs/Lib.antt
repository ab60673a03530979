pub mod Command
pub mod Accepted
