pub mod Defined
pub mod Lists
