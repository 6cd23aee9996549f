pub mod Changed
pub mod LibraryNames
pub mod Marks
pub mod NamedParameters
pub mod Signatures
