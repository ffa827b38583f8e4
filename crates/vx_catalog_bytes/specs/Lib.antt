pub mod Ports
pub mod Stored
