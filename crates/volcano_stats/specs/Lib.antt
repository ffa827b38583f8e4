pub mod Lines
pub mod Columns
pub mod Phases
pub mod Loads
pub mod Words
pub mod Table
pub mod Json
pub mod Text
