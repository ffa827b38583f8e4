pub mod Crew
pub mod Events
pub mod Waking
