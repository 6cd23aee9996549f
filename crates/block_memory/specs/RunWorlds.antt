pub mod Doing
pub mod Events
pub mod Library
pub mod LibraryCalls
pub mod Operators
pub mod Scalars
pub mod Ways
pub mod Worlds
