pub mod Linking
pub mod Settling
pub mod Keeping
pub mod Bearing
pub mod Running
pub mod Still
pub mod Queues
