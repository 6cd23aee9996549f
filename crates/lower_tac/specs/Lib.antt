pub mod Parts
pub mod Expressions
pub mod Statements
pub mod Asked
pub mod Writing
pub mod Grounds
pub mod Drafts
pub mod Same
mod Examples
