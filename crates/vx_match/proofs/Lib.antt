pub mod MergeJoins
pub mod Fewer
pub mod MergePays
pub mod MergeStarts
pub mod SemiJoins
