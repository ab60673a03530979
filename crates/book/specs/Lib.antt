pub mod Table
pub mod Reading
pub mod Template
pub mod Writing
pub mod Contents
pub mod Refusals
