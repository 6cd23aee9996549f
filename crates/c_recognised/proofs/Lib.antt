pub mod Calls
pub mod SizeCalls
