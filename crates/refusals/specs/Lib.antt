pub mod Names
pub mod Puts
pub mod Table
