pub mod Limits
pub mod DeclaratorTypes
pub mod OperatorNodes
