mod Found
pub mod FileDeclarations
pub mod FileItems
