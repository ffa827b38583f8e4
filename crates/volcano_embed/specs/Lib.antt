pub mod Given
pub mod Over
