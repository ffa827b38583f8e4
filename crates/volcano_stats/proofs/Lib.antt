pub mod JsonFacts
