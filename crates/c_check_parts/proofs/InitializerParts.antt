pub mod Alike
pub mod Turns
pub mod Braces
pub mod Lists
