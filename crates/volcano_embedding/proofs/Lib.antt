pub mod SerialFacts
pub mod HeldBox
