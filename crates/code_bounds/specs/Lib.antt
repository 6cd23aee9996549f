pub mod Prices
pub mod Temporaries
pub mod Scopes
pub mod LoweredLaws
pub mod CompiledLaws
pub mod StartLaws
mod LoweredExamples
mod CompiledExamples
