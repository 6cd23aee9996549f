pub mod Calls
pub mod Conversions
pub mod Operands
