pub mod Operations
pub mod Laws
pub mod Examples
