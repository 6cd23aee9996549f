pub mod Peeling
pub mod Clearing
pub mod Order
pub mod Joining
pub mod Outlines
pub mod Sides
pub mod Parts
pub mod PartSizes
pub mod Plans
pub mod Planning
mod Examples
