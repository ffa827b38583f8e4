pub mod Endings
pub mod Fitting
pub mod Living
