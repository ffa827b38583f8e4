pub mod Lines
pub mod Paths
pub mod Records
pub mod Spots
pub mod Stages
pub mod WithInput
