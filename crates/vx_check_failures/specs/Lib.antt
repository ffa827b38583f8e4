pub mod Failures
pub mod Shown
pub mod Lines
pub mod Grouped
pub mod FailureView
