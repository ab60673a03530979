pub mod Table
pub mod Route
pub mod Laws
pub mod Headers
