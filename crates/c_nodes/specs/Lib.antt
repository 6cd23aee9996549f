pub mod Gives
pub mod Sizing
pub mod DeclaratorTypes
pub mod OperatorNodes
