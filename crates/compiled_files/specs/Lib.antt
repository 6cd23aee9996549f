pub mod CodeRuns
pub mod Placing
pub mod Sound
pub mod Files
pub mod Laws
