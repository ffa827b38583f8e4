pub mod MissingFacts
pub mod FillFacts
pub mod FolderFacts
pub mod SeenFacts
