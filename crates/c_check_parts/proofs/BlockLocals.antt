pub mod InTurn
pub mod Variables
pub mod StaticObjects
