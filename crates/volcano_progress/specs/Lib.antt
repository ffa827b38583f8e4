pub mod Due
pub mod Name
pub mod Progress
pub mod Runs
pub mod Text
pub mod Words
