pub mod Counted
pub mod Weights
pub mod Bounds
