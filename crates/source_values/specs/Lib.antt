pub mod Elements
pub mod Ways
pub mod Rows
pub mod Sorts
