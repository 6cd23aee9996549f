pub mod Cores
pub mod Counting
pub mod Locals
pub mod Memories
pub mod Rooms
pub mod Calls
pub mod Agreeing
pub mod AtStart
