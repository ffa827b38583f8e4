pub mod Closings
pub mod Turns
pub mod Deals
pub mod Sendings
pub mod Parts
pub mod Joined
pub mod PortStreams
