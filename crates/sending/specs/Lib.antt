pub mod Laws
pub mod Sending
