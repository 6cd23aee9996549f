pub mod Header
pub mod Loaded
pub mod Read
pub mod Written
pub mod Examples
