pub mod StatementParts
