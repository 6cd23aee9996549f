pub mod Frames
pub mod Words
pub mod Operators
pub mod Code
pub mod Programs
