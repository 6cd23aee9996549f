pub mod Checking
pub mod FileDeclarations
pub mod FileItems
