pub mod Again
pub mod Back
pub mod Inside
pub mod Lengths
