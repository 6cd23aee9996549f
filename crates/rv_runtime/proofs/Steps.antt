pub mod Words
pub mod Ranges
pub mod Registers
pub mod Steps
pub mod Operators
pub mod Routines
pub mod Reaching
