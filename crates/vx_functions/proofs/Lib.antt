pub mod TextFacts
pub mod RowFacts
pub mod TypeFacts
pub mod MeaningFacts
pub mod AnswerTypes
