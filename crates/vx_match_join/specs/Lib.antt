pub mod Build
pub mod Parts
pub mod Sides
pub mod Matching
