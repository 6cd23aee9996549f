pub mod Alike
pub mod Far
pub mod Nothing
pub mod Objects
