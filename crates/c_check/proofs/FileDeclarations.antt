pub mod Objects
pub mod InTurn
pub mod Tags
pub mod NoTypedef
