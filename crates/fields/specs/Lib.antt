pub mod Kinds
pub mod Outcome
