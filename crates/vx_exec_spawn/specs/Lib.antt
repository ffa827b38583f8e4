pub mod Honest
pub mod Each
