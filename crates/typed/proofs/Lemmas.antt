pub mod Again
pub mod Back
pub mod Complement
