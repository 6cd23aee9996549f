pub mod Living
pub mod Parts
pub mod Memories
pub mod Locals
pub mod Counting
pub mod Calls
