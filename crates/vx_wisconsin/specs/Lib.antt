pub mod Wisconsin
pub mod Line
