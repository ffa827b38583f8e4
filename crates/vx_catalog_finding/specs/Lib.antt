pub mod Found
pub mod Layout
pub mod Finding
