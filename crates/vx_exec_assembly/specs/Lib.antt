pub mod Pairs
pub mod Plans
pub mod Spans
pub mod Closing
pub mod SeatsTaken
pub mod Parts
pub mod Assembly
