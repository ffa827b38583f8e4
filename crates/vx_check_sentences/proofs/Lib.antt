pub mod TextFacts
pub mod EntryFacts
