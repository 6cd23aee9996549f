pub mod States
pub mod Steps
pub mod View
pub mod Ways
pub mod Rooms
pub mod Reading
