pub mod Fields
pub mod Walk
pub mod Reading
pub mod Writing
pub mod Contents
pub mod Bytes
