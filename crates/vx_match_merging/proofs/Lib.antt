pub mod KeyOrder
pub mod RiseFacts
pub mod MergeFacts
pub mod MergeTurns
pub mod MergeCalls
pub mod BesideFacts
pub mod GoesOn
pub mod NumberTurns
