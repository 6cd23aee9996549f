pub mod InitializerParts
pub mod BlockLocals
