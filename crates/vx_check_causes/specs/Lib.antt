pub mod Below
pub mod Causes
pub mod Grouped
pub mod Once
pub mod ReportView
