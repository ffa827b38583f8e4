pub mod Lookup
pub mod Resolve
pub mod Named
pub mod Shaped
pub mod ByName
pub mod Exact
