pub mod Bits
pub mod Choice
pub mod Elements
pub mod Fixed
pub mod Front
pub mod Number
pub mod PartLaws
pub mod Refusals
