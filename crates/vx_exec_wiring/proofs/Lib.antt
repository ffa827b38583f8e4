pub mod Places
pub mod Each
pub mod Shares
pub mod Staying
pub mod Fresh
pub mod Growing
