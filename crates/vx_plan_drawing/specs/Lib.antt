pub mod Description
pub mod Drawing
