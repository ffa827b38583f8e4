pub mod Layout
pub mod Order
pub mod Needed
pub mod UnderLaws
