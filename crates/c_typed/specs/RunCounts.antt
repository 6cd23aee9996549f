pub mod Loops
pub mod Order
pub mod Counting
pub mod Stale
