pub mod Setup
pub mod Setting
pub mod Counts
