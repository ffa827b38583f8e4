pub mod JsonLines
pub mod Table
