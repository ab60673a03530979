pub mod Sap
pub mod Telegram
pub mod Reading
pub mod Writing
pub mod Around
pub mod Contents
