pub mod Blocks
pub mod Text
