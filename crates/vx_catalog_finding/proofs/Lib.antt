pub mod TextFacts
pub mod TypeFacts
pub mod KeyFacts
pub mod OrderFacts
pub mod LayoutFacts
pub mod RelationFacts
pub mod CatalogFacts
