pub mod Draws
pub mod Hands
pub mod Dealing
