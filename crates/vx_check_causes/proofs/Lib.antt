pub mod BelowFacts
pub mod CauseFacts
pub mod OnceFacts
pub mod ReportFacts
