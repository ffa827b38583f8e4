pub mod Numbers
pub mod Texts
pub mod Like
pub mod Rows
pub mod Standard
pub mod Laws
