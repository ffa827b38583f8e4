pub mod Booleans
pub mod Compare
pub mod DirectionFacts
pub mod SortedFacts
pub mod ClashFacts
pub mod KeyFacts
