pub mod Streams
pub mod RunGives
pub mod Fresh
pub mod Advances
pub mod Starting
