pub mod Again
pub mod Back
pub mod Changed
pub mod Parts
pub mod Placed
pub mod Verdict
pub mod Ways
