pub mod GivenParts
pub mod Tables
pub mod Alike
pub mod Whole
pub mod Nodes
pub mod Agreeing
pub mod Stable
