pub mod Finds
pub mod Adding
