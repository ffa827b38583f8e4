pub mod Ends
pub mod InOrder
pub mod Merged
pub mod Heads
pub mod Merge
pub mod MergeReceiver
