pub mod Fragments
pub mod Places
pub mod Members
pub mod Crew
pub mod Parallel
pub mod Engine
