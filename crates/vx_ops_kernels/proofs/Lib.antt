pub mod Runs
pub mod Conditions
pub mod Numbers
pub mod ColumnFacts
