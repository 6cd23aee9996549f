pub mod Answers
pub mod Nodes
pub mod Declaring
pub mod Finding
pub mod Initializers
pub mod Statements
pub mod Files
