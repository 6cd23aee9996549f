pub mod Growth
pub mod Moments
pub mod Active
pub mod Leading
pub mod Passing
pub mod Room
pub mod Laws
mod Examples
