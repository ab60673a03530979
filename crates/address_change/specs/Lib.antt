pub mod Address
pub mod Accepted
