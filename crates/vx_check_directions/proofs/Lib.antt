pub mod Alike
pub mod Tests
pub mod DerivedTests
pub mod AskedFalls
pub mod Accepting
pub mod AskingSteps
pub mod TurnedPlans
