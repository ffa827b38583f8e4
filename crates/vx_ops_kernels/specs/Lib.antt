pub mod Holds
pub mod Interval
