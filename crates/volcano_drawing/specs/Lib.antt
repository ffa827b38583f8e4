pub mod Entries
pub mod Totals
pub mod Fault
pub mod Drawing
