pub mod Sizes
pub mod Setup
pub mod Runs
pub mod Promise
pub mod UnderLaws
