pub mod Parts
pub mod Kinds
