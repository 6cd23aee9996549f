pub mod Walks
pub mod MarksOfParts
pub mod MarksOfFiles
pub mod Ordered
