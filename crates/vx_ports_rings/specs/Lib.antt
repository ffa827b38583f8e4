pub mod Ends
pub mod Never
