pub mod Accepted
pub mod Templates
