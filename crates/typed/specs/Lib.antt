pub mod Value
pub mod Reading
pub mod Writing
