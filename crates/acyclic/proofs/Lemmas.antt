pub mod Again
pub mod Answers
pub mod Bytes
pub mod Calls
pub mod Forms
pub mod Small
