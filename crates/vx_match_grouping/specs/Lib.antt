pub mod Groups
pub mod GroupFaults
pub mod Takes
pub mod Shown
