pub mod FindFacts
pub mod NumberFacts
