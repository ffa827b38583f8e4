pub mod Named
pub mod Bundle
pub mod BundleView
