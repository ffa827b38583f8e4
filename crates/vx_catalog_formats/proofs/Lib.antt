pub mod RowFacts
pub mod WidthFacts
