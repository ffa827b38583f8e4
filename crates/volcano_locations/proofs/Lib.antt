pub mod SourceFacts
pub mod TurnFacts
pub mod WalkFacts
pub mod StandFacts
pub mod PathFacts
