pub mod Division
pub mod Storing
pub mod Spellings
