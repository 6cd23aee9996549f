pub mod Keeps
pub mod Steps
pub mod Counted
pub mod Within
