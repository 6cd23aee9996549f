pub mod Counting
pub mod Tagging
pub mod Structs
