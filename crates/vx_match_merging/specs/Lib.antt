pub mod Merged
pub mod AtHand
pub mod Keys
pub mod Numbers
