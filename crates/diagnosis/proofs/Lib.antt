pub mod Accepted
pub mod Laws
pub mod Lemmas
pub mod Refusals
pub mod Reporting
