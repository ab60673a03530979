pub mod Numbers
pub mod Errors
pub mod Forms
pub mod Calls
pub mod Answers
pub mod Bytes
pub mod Refusals
