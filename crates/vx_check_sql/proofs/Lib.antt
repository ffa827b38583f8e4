pub mod CallFacts
pub mod EndFacts
pub mod OwnFacts
pub mod WordFacts
