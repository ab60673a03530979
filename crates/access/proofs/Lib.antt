pub mod Laws
pub mod Routed
