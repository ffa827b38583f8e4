pub mod UnderFacts
