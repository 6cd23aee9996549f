pub mod ListPages
pub mod CellWords
