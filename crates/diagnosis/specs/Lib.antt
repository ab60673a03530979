pub mod Map
pub mod Block
pub mod Walk
pub mod Reading
pub mod Writing
pub mod Contents
pub mod Bytes
