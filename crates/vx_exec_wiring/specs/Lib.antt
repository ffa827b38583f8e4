pub mod Giving
pub mod Making
