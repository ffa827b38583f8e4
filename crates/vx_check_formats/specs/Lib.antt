pub mod Json
pub mod Label
pub mod Totals
pub mod Dot
