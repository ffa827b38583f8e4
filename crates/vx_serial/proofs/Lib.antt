pub mod Agreement
pub mod ColumnFacts
pub mod UnderFacts
pub mod Answered
