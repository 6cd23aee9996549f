pub mod Marks
pub mod UntaggedStructs
