pub mod Codes
pub mod Names
