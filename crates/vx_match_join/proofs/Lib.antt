pub mod PlaceFacts
pub mod BuildFacts
pub mod PairFacts
pub mod SemiColumns
pub mod MatchFacts
