pub mod FailureFacts
pub mod FindingFacts
pub mod GroupFacts
pub mod ShownFacts
pub mod TableSteps
pub mod CarriedKeys
pub mod DerivedFacts
