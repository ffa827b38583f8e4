pub mod CallFacts
pub mod WordFacts
