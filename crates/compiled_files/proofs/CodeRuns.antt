pub mod Adding
pub mod Library
pub mod Parts
pub mod Steps
pub mod Runs
pub mod Weights
