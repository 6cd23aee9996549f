pub mod CodeRuns
pub mod InImage
pub mod Starting
pub mod Soundness
pub mod Events
pub mod Room
pub mod Weighed
pub mod Agreeing
pub mod Composed
pub mod Theorem
mod Example
