pub mod Shown
pub mod Text
