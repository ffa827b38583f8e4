pub mod Evaluated
pub mod Results
