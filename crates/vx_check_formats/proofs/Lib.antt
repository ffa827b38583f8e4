pub mod PlainFacts
pub mod NodeFacts
