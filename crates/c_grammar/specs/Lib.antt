pub mod Reading
pub mod StatementReading
