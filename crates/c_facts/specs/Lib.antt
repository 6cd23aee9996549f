pub mod Contexts
pub mod Fields
pub mod Facts
pub mod Programs
pub mod Groups
pub mod Puts
mod Examples
