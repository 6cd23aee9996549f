pub mod Declarable
pub mod Expressions
pub mod Initializers
pub mod Statements
pub mod Programs
pub mod Laws
