pub mod Parts
pub mod Arms
