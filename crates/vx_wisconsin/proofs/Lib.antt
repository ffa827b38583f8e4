pub mod Plain
pub mod LineFacts
pub mod Unique
pub mod RelationFacts
pub mod RowFacts
pub mod TextFacts
pub mod Loaded
