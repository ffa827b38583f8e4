pub mod Misfits
pub mod Names
pub mod Places
pub mod Shapes
pub mod Spans
pub mod Steps
pub mod Words
