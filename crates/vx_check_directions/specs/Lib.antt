pub mod Turned
pub mod Directed
pub mod Planned
pub mod Finding
