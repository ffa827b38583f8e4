pub mod Spans
pub mod Each
pub mod Order
pub mod Capped
pub mod UnderFacts
