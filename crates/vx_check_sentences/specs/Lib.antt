pub mod Words
pub mod Claimed
pub mod Shown
pub mod Explained
