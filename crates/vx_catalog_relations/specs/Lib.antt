pub mod Relation
pub mod Catalog
pub mod Walk
pub mod Form
pub mod Naming
