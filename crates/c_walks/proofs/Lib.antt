pub mod ChangedLists
pub mod ChangedParts
