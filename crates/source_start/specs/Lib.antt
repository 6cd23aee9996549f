pub mod Writing
pub mod Zeros
pub mod Shape
pub mod Counted
pub mod Fits
pub mod Standing
