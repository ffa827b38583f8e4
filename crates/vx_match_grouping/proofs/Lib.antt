pub mod AggregateFacts
pub mod GroupFacts
pub mod EndFacts
pub mod TypeFacts
pub mod FrontFacts
pub mod BlameFacts
pub mod ColumnFacts
pub mod BeyondFacts
