pub mod StepFacts
