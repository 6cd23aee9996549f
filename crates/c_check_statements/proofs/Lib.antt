pub mod InTurn
pub mod StatementParts
