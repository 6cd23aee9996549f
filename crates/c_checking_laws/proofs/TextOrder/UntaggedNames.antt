pub mod Agreeing
pub mod SameMarks
pub mod OtherParts
pub mod OtherStatements
pub mod OtherFiles
pub mod OneLine
