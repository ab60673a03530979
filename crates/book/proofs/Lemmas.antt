pub mod Entries
pub mod Fit
pub mod Found
pub mod Good
pub mod Pairs
pub mod Parts
pub mod Running
