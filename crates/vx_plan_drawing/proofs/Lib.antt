pub mod LineFacts
pub mod OperandTexts
