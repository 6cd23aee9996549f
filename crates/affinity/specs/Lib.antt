pub mod Accesses
pub mod GroupWeights
pub mod Sums
pub mod Weighing
pub mod Walking
pub mod Touched
pub mod FieldWeights
mod Examples
