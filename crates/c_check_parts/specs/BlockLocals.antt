pub mod Performing
pub mod Parts
