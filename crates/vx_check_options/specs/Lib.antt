pub mod Options
pub mod Placed
pub mod Laws
pub mod FoundKeys
pub mod Claimed
pub mod OptionsView
