pub mod Counts
pub mod Kind
pub mod Operator
pub mod Destination
